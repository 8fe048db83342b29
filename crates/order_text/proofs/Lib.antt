-- The laws of the text, and whole texts computed.
pub mod Forms
pub mod Fits
pub mod Worked
