-- The line that `pddl` prints.
pub mod Told
