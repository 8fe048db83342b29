-- What the notes of two texts say of the job: the numbers of names, the actions of steps, the tables.
pub mod Resolved
pub mod Tables
