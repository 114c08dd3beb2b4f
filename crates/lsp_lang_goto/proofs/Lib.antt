pub mod Depth
pub mod Unrolled
