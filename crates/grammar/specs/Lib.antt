-- The grammar of a supplier's two texts: what is written and how, what it says, and the reader that one token decides.
pub mod Said
pub mod Tree
pub mod Written
pub mod Saying
pub mod Allowed
pub mod Reader
pub mod Reading
pub mod Demands
pub mod Place
