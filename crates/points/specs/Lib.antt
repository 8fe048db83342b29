-- The points of a job: as words before they are sorted, and what is known of them in order.
pub mod Points
pub mod Words
pub mod Timelines
