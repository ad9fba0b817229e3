pub mod ExcerptLemmas
pub mod TableLemmas
pub mod BookLemmas
pub mod OverdueLemmas
pub mod HistoryLemmas
pub mod FindingLemmas
pub mod NumberLemmas
