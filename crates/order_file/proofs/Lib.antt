-- What is encoded reads back whole, and what is written is what is encoded.
pub mod Encode
pub mod RoundTrip
pub mod Put
pub mod Whole
