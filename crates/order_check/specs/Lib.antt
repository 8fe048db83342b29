-- When bytes are an order file.
pub mod WellFormed
