pub mod TrialLemmas
pub mod LinesLemmas
pub mod SpendingLemmas
