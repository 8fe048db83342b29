-- What a reader says of the outcome of a text.
pub mod Reading
