-- The earliest starts under orders: rounds.
pub mod Rounds
