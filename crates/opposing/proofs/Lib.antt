-- What a walk along the points of a group passes and finds.
pub mod Scanned
pub mod Unmixed
