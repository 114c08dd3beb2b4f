pub mod Blocks
pub mod Documents
pub mod Errors
pub mod Lines
pub mod OpenDocument
pub mod Views
