pub mod StdioLemmas
pub mod PumpingLemmas
