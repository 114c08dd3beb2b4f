pub mod KindText
pub mod SemanticTokens
pub mod Markup
pub mod Trace
pub mod Folding
pub mod Progress
