pub mod Document
pub mod Files
pub mod Progress
pub mod Window
pub mod Workspace
