-- Which steps open the exchange of a call, an event or a token.
pub mod OpeningLemmas
pub mod RuleInputs
pub mod EventCounts
pub mod OpeningItems
pub mod CallOpenings
pub mod EventOpenings
pub mod TokenLemmas
pub mod SentNames
