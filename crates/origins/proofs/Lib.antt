-- A table raised to one order, along a row of it, and to many.
pub mod Row
pub mod Raised
pub mod Reached
