-- The laws of the text and of writing it.
pub mod LineByLine
pub mod Forms
pub mod Fits
pub mod Agree
