pub mod Color
pub mod Diagnostic
pub mod Hierarchy
pub mod Inline
pub mod LinkedEditing
pub mod Moniker
pub mod Tokens
