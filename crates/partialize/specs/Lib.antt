-- Loosening: its answer, the buffer afterwards, and what is promised of them.
pub mod Formed
pub mod Answer
pub mod Partialization
pub mod Demands
pub mod Found
pub mod Holds
