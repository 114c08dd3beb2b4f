pub mod Back
pub mod Cancel
pub mod Faults
pub mod Ids
pub mod Message
pub mod Pieces
pub mod Shown
