-- When a job file is well formed, and what a refusal of its form says.
pub mod Refusals
pub mod Refused
