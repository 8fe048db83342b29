-- Two texts answered.
pub mod Blank
pub mod Named
pub mod Understood
pub mod Planned
pub mod Whole
