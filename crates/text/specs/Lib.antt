-- Numbers in decimal digits, and what writing a text into a buffer leaves there.
pub mod Decimal
pub mod Put
pub mod Word
