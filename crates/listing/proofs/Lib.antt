-- The laws of filling a list.
pub mod Filling
