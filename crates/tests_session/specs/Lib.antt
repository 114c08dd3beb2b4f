pub mod Trial
pub mod Lines
pub mod LinesCounted
pub mod Spending
