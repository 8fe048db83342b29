-- The demands on the two readings, from what each symbol of the reader stands for; small texts by computing.
pub mod Meaning
pub mod Made
pub mod Opened
pub mod Closed
pub mod Along
pub mod Demanded
pub mod Deeper
pub mod Faults
pub mod Placed
pub mod Worked
