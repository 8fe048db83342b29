-- Laws of what notes bring.
pub mod Walk
pub mod Gathered
pub mod Lengths
pub mod Behind
pub mod Rows
pub mod Planned
pub mod Stated
pub mod Even
pub mod Begun
pub mod Encoded
pub mod Chain
