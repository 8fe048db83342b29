-- What the words are made of.
mod Parts
