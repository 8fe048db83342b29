-- Laws of the definitions in specs/, that the checks say what `Valid` says, and the cases of needs by computing.
pub mod Seen
pub mod Levels
pub mod Planned
pub mod Tested
pub mod Kept
pub mod EndState
pub mod Refused
pub mod Clock
pub mod Accepted
pub mod Needs
