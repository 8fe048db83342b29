-- What passes refusals 1 to 7 and 17 is well formed, and what their numbers and places say.
pub mod WellFormed
pub mod Refused
pub mod Decides
