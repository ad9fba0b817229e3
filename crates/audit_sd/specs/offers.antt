pub mod OfferKeys
pub mod OfferOrder
pub mod OfferRules
pub mod OfferTables
pub mod OfferHistories
pub mod OfferExamples
pub mod OfferReasons
