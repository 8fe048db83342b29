-- Demands 2 and 3 of the bytes that were written.
pub mod Filed
pub mod Found
pub mod Counted
pub mod Promised
