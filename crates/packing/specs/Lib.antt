-- The number that packs an answer.
pub mod Packed
