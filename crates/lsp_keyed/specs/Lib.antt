pub mod Items
pub mod Index
