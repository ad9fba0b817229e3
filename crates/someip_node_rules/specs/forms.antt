-- What a node is set up with, what it sends, and what it gives.
pub mod Setups
pub mod Entries
pub mod Outputs
pub mod Receivers
pub mod GoodConfigs
pub mod OutputWords
