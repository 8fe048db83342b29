-- What the uses of a level say of its needs.
pub mod LevelNeeds
