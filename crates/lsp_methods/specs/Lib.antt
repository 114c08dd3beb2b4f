pub mod MethodRow
pub mod Methods
pub mod Shapes
pub mod Standard
pub mod ServiceTable
