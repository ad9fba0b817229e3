pub mod WatchLemmas
pub mod PlaceLemmas
pub mod SilenceLemmas
pub mod HistoryLemmas
pub mod ReasonLemmas
