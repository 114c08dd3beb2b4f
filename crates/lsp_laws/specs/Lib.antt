pub mod Answers
pub mod Gates
pub mod Lives
pub mod Starts
