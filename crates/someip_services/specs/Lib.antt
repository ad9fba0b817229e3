pub mod Entries
pub mod Services
pub mod Codes
pub mod ServiceTimelines
