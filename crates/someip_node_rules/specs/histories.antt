-- What a node meets, and what it answers of that.
pub mod Tables
pub mod Items
pub mod Questions
pub mod DiscoveryQuestions
pub mod CallQuestions
pub mod SubscriberQuestions
pub mod OfferQuestions
pub mod SeekQuestions
pub mod WishQuestions
pub mod History
pub mod Starts
