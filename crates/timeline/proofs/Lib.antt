-- What a word is made of, walks and sums along words; how an index grows.
pub mod Indexing
pub mod Words
pub mod Walking
pub mod PlacedSums
