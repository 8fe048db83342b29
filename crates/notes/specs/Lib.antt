-- What a text says, noted in a list of numbers.
pub mod Notes
