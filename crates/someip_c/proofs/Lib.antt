pub mod Dropping
pub mod HandleLemmas
