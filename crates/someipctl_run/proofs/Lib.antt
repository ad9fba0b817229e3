pub mod TraceLemmas
pub mod ExpectedLemmas
pub mod ComparingLemmas
pub mod LawLemmas
pub mod ToldLemmas
