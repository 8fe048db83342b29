-- Which symbols of items stand for others, the roles of names, and the loop.
pub mod Likeness
pub mod Roles
pub mod Loops
