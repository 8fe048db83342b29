-- Points as words, in order and along a walk; records linked by a key.
pub mod Indexed
pub mod Words
pub mod Placed
pub mod Walking
