-- What the setters of a fact say of its effects and conditions.
pub mod Conditions
pub mod Contested
