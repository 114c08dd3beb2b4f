pub mod Folding
pub mod Formatting
pub mod Moniker
pub mod Results
pub mod Selection
pub mod SelectionRange
pub mod SignatureHelp
pub mod Tokens
