-- What a note says.
pub mod Notes
