-- Which symbols of a text stand for others, the loops, and the whole of a text.
pub mod Likeness
pub mod Loops
pub mod Hearing
