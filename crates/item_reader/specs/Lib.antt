-- What the readers of items take.
pub mod Kinds
