pub mod SettingsAsked
pub mod Sources
pub mod Failures
