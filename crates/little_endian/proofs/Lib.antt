-- Their laws.
pub mod Sets
pub mod Bytes
pub mod Stands
