-- What one token does, what is noted of it, and symbols one after the other.
pub mod Steps
pub mod Tested
pub mod Noting
pub mod Naming
pub mod Numbering
pub mod Compose
pub mod Turning
