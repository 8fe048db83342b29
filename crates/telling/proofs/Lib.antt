-- The laws of telling, and whole lines computed.
pub mod Putting
pub mod Unsound
pub mod Worked
