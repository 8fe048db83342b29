-- What a walk along the setters of a fact finds of its effects and conditions is what all effects say of them.
mod Against
mod Breaks
pub mod Contested
pub mod Conflicts
mod Walked
