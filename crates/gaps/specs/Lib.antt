-- What callers believe of the table of gaps (Table), and what the rules read and raise.
pub mod Table
pub mod Rules
