pub mod ServiceLemmas
pub mod TimelineLemmas
