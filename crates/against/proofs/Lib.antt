-- When refusals 7 and 17 pass, and what the search by pairs finds.
pub mod Unopposed
pub mod PairSteps
pub mod Onward
pub mod PairCases
