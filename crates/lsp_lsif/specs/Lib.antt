pub mod Edge
pub mod Entry
pub mod Labels
pub mod Symbols
pub mod Tags
pub mod Vertex
