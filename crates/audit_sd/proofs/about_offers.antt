pub mod OfferLemmas
pub mod DueLemmas
pub mod HistoryLemmas
pub mod ReasonLemmas
