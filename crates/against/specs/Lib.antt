-- When a step or the clock is against itself: refusals 7 and 17, and the search by pairs.
pub mod Against
pub mod BothWays
pub mod Clock
pub mod Pairs
pub mod Onward
pub mod PairCases
