pub mod CommandLemmas
pub mod PlanLemmas
pub mod PollLemmas
pub mod WrittenLemmas
