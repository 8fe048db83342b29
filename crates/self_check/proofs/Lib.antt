-- The tests of refusal 7.
pub mod Steps
