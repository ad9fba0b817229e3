pub mod SubscriptionKeys
pub mod SubscriptionOrder
pub mod OwedAnswers
pub mod SubscribeRules
pub mod SubscribeTables
pub mod SubscribeHistories
pub mod SubscribeExamples
pub mod SubscribeReasons
