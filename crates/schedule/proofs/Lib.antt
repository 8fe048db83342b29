-- How the refusals chain.
pub mod Chained
pub mod Reading
