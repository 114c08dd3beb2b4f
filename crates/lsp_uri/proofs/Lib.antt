pub mod CutLemmas
pub mod Segments
pub mod Groups
pub mod Addresses
pub mod Recomposed
pub mod Told
