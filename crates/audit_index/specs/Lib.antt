pub mod Slots
pub mod Owners
pub mod Places
