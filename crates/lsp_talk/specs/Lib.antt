pub mod Hello
pub mod Talk
