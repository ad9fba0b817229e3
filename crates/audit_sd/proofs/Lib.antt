pub mod about_sessions
pub mod about_offers
pub mod about_subscriptions
pub mod about_receivers
pub mod about_servers
