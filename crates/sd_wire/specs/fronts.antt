-- How entries are split into messages.
pub mod Splitting
pub mod Fronts
