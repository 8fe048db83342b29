-- The refusals: their numbers and places, and a chain of checks.
pub mod Verdict
