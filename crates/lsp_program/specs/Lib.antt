pub mod Number
pub mod Status
