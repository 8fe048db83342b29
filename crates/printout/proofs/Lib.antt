-- The laws of what is printed.
pub mod Mark
pub mod Printed
pub mod Beginning
pub mod Starred
