pub mod Accounts
pub mod Giving
