pub mod Kinds
pub mod Discovery
pub mod Spelling
pub mod Faults
pub mod Datagram
pub mod Reading
pub mod View
pub mod Examples
