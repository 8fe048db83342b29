-- The laws of words, of counting and storing starts, and of what a text is read as; cases by computing.
mod Words
mod Counting
mod Storing
mod Reading
mod Worked
