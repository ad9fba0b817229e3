-- Which Subscribes begin a subscription.
pub mod CourseLemmas
pub mod BeginningLemmas
pub mod AgreeingLemmas
pub mod SubscribesLemmas
pub mod RuleBeginnings
pub mod BeginningWalks
pub mod InputBeginnings
pub mod SubscribesBegin
