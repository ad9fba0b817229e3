-- What each item changes of what a history answers, and that the tables of a node say the same.
pub mod QuestionLemmas
pub mod SubscriberLives
pub mod CallLives
pub mod DiscoveryLives
pub mod OfferLives
pub mod WishLives
pub mod Shown
pub mod Stands
pub mod StandingLemmas
pub mod SubscriberLimitLemmas
