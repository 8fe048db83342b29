-- The text of an order file.
pub mod Text
