pub mod Clean
pub mod Integers
pub mod LetIn
pub mod Tokens
