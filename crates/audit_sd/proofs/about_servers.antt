pub mod ServerLemmas
pub mod HistoryLemmas
pub mod ReasonLemmas
