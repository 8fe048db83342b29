-- The answer keeps the promise, and the laws by which code answers so.
pub mod Checked
pub mod Lines
pub mod Unplaced
pub mod Small
pub mod Passing
pub mod Kept
pub mod Promised
pub mod Worked
