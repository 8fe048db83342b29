-- What the code raises the table to is what the rules say.
pub mod Filled
pub mod Pairs
pub mod Rules
pub mod Own
pub mod Supported
