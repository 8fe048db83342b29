-- The names of the action text: an index of their first appearances, and their numbers.
pub mod Index
pub mod Kinds
pub mod Named
pub mod Passed
