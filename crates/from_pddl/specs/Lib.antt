-- Jobs from two texts: what is known from one to the other.
pub mod Understood
pub mod Answered
