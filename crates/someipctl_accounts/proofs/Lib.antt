pub mod AccountLemmas
pub mod GivingLemmas
