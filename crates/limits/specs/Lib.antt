-- What the limits of timed facts are found from and what they are (Timed), and the orders beside them (Beside, Known).
pub mod Timed
pub mod Beside
pub mod Known
