pub mod GoodSetups
pub mod NodesMade
pub mod Readings
pub mod Examples
