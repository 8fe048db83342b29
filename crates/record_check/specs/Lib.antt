-- When the header and the records of a job file are in order: refusals 1 to 6.
pub mod Records
