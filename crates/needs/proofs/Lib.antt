-- What a walk along the needs of a level, beside its uses, finds is what all its uses say of them.
mod LevelNeeds
