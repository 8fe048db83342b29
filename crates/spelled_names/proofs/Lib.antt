-- The laws of words compared, of names, and of the word at a cursor.
pub mod Words
pub mod Names
pub mod Such
