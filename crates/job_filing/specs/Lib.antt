-- The job that notes hold: what it is answered.
pub mod Filed
