-- The table of gaps raised, and groups of points with the orders between them.
pub mod Raised
pub mod Points
