-- The counts of a job that notes hold.
pub mod Counted
