-- The laws of packed answers.
mod Repacked
pub mod Unpacked
