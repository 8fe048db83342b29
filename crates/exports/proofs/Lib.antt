-- The law of promises carried over to the defined answer.
mod Carried
