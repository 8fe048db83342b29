-- What a supplier's two texts describe: names and their numbers, the plan's lines, the records of the job.
pub mod Names
pub mod Clash
pub mod Plan
pub mod Small
pub mod Records
pub mod Job
