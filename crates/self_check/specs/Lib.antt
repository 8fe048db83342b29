-- What the search of refusal 7 presumes of its indexes.
pub mod Keys
