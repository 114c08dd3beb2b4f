pub mod CodeAction
pub mod Completion
pub mod InlayHint
pub mod InlineValue
pub mod Rename
