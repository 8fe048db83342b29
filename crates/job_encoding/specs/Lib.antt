-- The bytes of a job file, the jobs that one can hold, and when two jobs say the same.
pub mod Encode
pub mod Fits
pub mod Agree
