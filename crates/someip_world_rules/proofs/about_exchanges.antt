pub mod messages
pub mod openings
pub mod beginnings
pub mod runs
