pub mod Command
pub mod Files
pub mod Notebook
pub mod Registration
pub mod Server
pub mod Watch
pub mod WatchKind
pub mod Workspace
