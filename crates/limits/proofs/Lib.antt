-- What the code moves the lists of starts to is what the definitions say of the clock.
pub mod AllAre
pub mod Tested
pub mod Grouped
pub mod Clock
pub mod Raised
pub mod Lowered
pub mod Known
pub mod Walked
