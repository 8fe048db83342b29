-- What the two texts of a supplier are made of: words, brackets and lines; names and numbers; the token at a cursor.
pub mod Tokens
pub mod Spelling
pub mod Keywords
pub mod Names
pub mod Numbers
pub mod Cursor
pub mod Scan
