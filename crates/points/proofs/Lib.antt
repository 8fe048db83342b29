-- How words are put and, once sorted, stand, what the setters of a fact say of the value seen, and the points without timed facts.
pub mod ClockedRange
pub mod Placing
pub mod Putting
pub mod Placed
pub mod Own
