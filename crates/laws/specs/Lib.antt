-- General definitions: bounded search, folds and counts over indexes, lists made by an index, linked indexes, a lowest index noted on the way.
pub mod Search
pub mod Fold
pub mod Nth
pub mod Listed
pub mod Linked
pub mod Noted
