-- What a list of starts is and says.
pub mod Starts
pub mod Words
