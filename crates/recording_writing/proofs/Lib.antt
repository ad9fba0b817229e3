pub mod LinkLemmas
pub mod BlockLemmas
pub mod FileLemmas
pub mod WritingLemmas
