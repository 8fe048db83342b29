-- The laws of a chain of checks, and of places.
pub mod Chain
pub mod Unplaced
