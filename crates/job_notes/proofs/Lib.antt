-- The tables of notes are those of what the texts say.
pub mod Joined
pub mod Fitting
pub mod Numbering
pub mod Roles
pub mod Walks
pub mod Lines
pub mod Listed
pub mod Matching
pub mod Noted
