-- What is well formed is within the format and what is encoded is well formed.
pub mod WellFormed
pub mod Ascending
