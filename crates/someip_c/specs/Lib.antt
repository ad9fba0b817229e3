pub mod Owned
pub mod Codes
pub mod Handles
pub mod Asking
