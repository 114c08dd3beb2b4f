pub mod Determined
pub mod Docs
pub mod DocsLaws
pub mod Notices
pub mod Params
pub mod Typed
