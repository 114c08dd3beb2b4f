pub mod TokenList
pub mod Unrolled
