pub mod DiscoveryMessages
pub mod NamedEndpoints
pub mod WatchedEndpoints
pub mod Learning
