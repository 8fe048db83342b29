-- The job that a reader holds.
pub mod Seen
