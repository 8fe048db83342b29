-- What one start is moved to, and which timed fact moves it.
pub mod Moved
pub mod Tested
pub mod NextOthers
