-- What the readers of the two texts promise.
pub mod Rows
pub mod Heard
