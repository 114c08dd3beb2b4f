pub mod AskingLemmas
pub mod ReplyLemmas
