pub mod SubscribeLemmas
pub mod DueLemmas
pub mod HistoryLemmas
pub mod ReasonLemmas
