-- The verdicts of headers in three editions.
pub mod HeaderCases
