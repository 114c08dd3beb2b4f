pub mod Cancellation
pub mod CellKind
pub mod Document
pub mod Notebook
pub mod Workspace
