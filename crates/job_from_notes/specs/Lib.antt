-- What notes bring to a job, the lengths of its tables, and what writing it asks for.
pub mod Brought
pub mod Counted
pub mod Putting
pub mod Opening
pub mod TableBytes
pub mod Whole
