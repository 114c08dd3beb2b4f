pub mod Said
pub mod Counted
pub mod Made
pub mod Callers
pub mod Tallies
pub mod Given
