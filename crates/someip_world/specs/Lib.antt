pub mod Places
pub mod Performing
pub mod Acting
pub mod Running
