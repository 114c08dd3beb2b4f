pub mod RunLemmas
mod ArgumentsLemmas
pub mod BulkLemmas
