-- What a caller gets.
pub mod Packs
