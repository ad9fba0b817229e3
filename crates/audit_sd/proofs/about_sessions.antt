pub mod PairLemmas
pub mod HistoryLemmas
pub mod ReasonLemmas
pub mod OtherLemmas
