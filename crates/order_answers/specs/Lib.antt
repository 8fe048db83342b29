-- What the reader and the alike test answer.
pub mod Alike
pub mod Answers
pub mod ReadBack
