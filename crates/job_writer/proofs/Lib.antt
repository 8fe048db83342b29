-- Numbers put one behind the other: those of a record, and those of the header.
pub mod PutRecord
pub mod PutHeader
