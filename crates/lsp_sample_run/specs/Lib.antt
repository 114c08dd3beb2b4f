pub mod Arguments
pub mod Run
pub mod Bulk
pub mod Tally
