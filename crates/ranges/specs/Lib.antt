-- When a record of a job file is in range.
pub mod Ranges
