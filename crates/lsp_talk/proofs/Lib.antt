pub mod AgainLemmas
pub mod QuietLemmas
pub mod CalmLemmas
pub mod HelloLemmas
pub mod WholeLemmas
pub mod TalkLemmas
pub mod ServedLemmas
pub mod LineLemmas
