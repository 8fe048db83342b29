-- Laws of the index of names, of their numbers, and of what may stand behind what.
pub mod Roles
pub mod Firsts
pub mod Linking
pub mod Looking
pub mod Numbering
pub mod Clashing
pub mod Acting
pub mod Marks
pub mod Onward
pub mod Again
pub mod Anew
pub mod Stepping
pub mod Finding
