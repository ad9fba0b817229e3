pub mod Finishings
pub mod Refusals
