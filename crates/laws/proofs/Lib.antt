-- The laws of the definitions in specs/, each under its definition's name.
pub mod Search
pub mod Fold
pub mod Nth
pub mod Listed
pub mod Linked
pub mod Noted
pub mod Chosen
