pub mod BegunLemmas
pub mod DeterminedLemmas
pub mod DocsLemmas
pub mod NoticeLemmas
pub mod ParamsLemmas
pub mod ShownLemmas
pub mod TurnLemmas
