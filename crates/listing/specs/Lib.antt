-- The numbers that the readers put into a lent list.
pub mod Listed
