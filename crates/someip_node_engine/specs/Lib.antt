pub mod Working
pub mod FrontSizes
pub mod Passings
pub mod Handled
pub mod Ports
pub mod Publishings
pub mod Arrivals
