-- Rounds end, and give the least starts that keep every order.
pub mod Rounds
pub mod Same
