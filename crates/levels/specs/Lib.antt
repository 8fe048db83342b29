-- What the uses of a level add up to along its points, and which of them are of one step at one tick.
pub mod LevelSums
pub mod UsesApart
