-- What callers believe of lists of starts (Starts), and the invariants of this crate (Loops).
pub mod Starts
pub mod Loops
