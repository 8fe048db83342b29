-- What follows from which answer it is, and that what is encoded is read back.
pub mod Answers
pub mod ReadBack
pub mod Signed
