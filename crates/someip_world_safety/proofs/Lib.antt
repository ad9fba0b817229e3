pub mod networks
pub mod runs
pub mod calls
pub mod subscriptions
pub mod messages
pub mod events
pub mod answers
