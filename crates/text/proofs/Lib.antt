-- The laws of writing and of decimal numbers.
pub mod Writing
pub mod Decimal
