pub mod SessionRules
pub mod SessionBooks
pub mod PairOrder
pub mod Histories
pub mod Examples
pub mod Reasons
pub mod OtherPairs
