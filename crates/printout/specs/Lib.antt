-- What `show` prints of a job, and the starred cases whole.
pub mod Shown
pub mod Starred
