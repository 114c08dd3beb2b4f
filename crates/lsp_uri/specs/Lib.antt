pub mod Cuts
pub mod Grammar
pub mod Widths
pub mod Uri
pub mod Whole
