-- A step of a node, and many of them.
pub mod Steps
pub mod Lives
pub mod Limits
pub mod Advances
pub mod SubscriberLimits
pub mod Waking
