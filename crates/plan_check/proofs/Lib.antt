-- Laws of the plan's lines.
pub mod Lines
