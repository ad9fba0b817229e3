-- What the rules hand up, reply and publish.
pub mod LimitLemmas
pub mod HandUpLemmas
pub mod PublishedLemmas
pub mod RuleReplies
pub mod AnsweringLemmas
