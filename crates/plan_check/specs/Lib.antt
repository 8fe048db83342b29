-- The plan's lines: which of them differs from the action that it names.
pub mod Checked
pub mod LineAction
