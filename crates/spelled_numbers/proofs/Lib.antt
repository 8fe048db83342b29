-- The laws of numbers, and of the number at a cursor.
pub mod Numbers
pub mod Read
