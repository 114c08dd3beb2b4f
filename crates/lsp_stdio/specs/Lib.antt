pub mod Status
pub mod Stdio
pub mod Pumping
