-- The points of a job as words, and the job whose points are those of its steps alone.
pub mod Words
pub mod Own
