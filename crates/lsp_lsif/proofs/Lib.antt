pub mod Labelled
pub mod Room
pub mod Tagged
pub mod Unrolled
pub mod Mapped
