-- When the header of a job file is in order: refusals 1 to 5.
pub mod Header
pub mod HeaderCases
