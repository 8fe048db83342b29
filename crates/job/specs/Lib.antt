-- What a job file holds: its layout, the job in it, when that is well formed, and the job with its timed facts among its effects.
pub mod Layout
pub mod Laid
pub mod Model
pub mod WellFormed
pub mod Clocked
