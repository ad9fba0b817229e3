pub mod sessions
pub mod offers
pub mod subscriptions
pub mod receivers
pub mod servers
