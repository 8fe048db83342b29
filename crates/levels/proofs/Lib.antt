-- What a sweep along the uses of a level finds is what all its uses say.
pub mod LevelSweeps
pub mod UsesApart
