-- What the search by pairs answers, and what it compares.
pub mod Answer
pub mod Keys
