-- What steps keep, and what stands in lists.
pub mod Among
pub mod ClockLemmas
pub mod GoodOffers
