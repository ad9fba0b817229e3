pub mod EntryLemmas
pub mod PlaceLemmas
pub mod BookLemmas
pub mod TimelineLemmas
pub mod HistoryLemmas
pub mod DatagramLemmas
