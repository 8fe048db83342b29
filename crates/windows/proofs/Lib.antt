-- The loops of rounds and of latest starts, and when starts are the same.
pub mod Loops
pub mod Latest
pub mod Same
