-- A table raised to the orders between points, pair by pair or by rows.
pub mod Grouped
pub mod Setters
pub mod Beside
pub mod Part
