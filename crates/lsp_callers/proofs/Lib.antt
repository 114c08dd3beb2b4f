pub mod MadeLemmas
pub mod SaidLemmas
pub mod HeardLemmas
pub mod CountLemmas
pub mod Crossing
