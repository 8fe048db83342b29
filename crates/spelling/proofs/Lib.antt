-- The laws of tokens and their spelling, of the loops that find them, and of the parts of a text; cases by computing.
pub mod Tokens
pub mod Spelling
pub mod Scan
pub mod Same
pub mod Part
pub mod Digits
pub mod Standing
pub mod Worked
