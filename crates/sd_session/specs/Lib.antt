pub mod Sessions
pub mod Peers
