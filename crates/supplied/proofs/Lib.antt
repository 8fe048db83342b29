-- Small texts, computed; clashes and numbers of names in plain words; the job fits a file.
pub mod Worked
pub mod Clash
pub mod Numbering
pub mod Every
pub mod Small
pub mod RecordsFit
pub mod Fits
