pub mod AnswerLemmas
pub mod GateLemmas
pub mod LifeLemmas
pub mod StartLemmas
