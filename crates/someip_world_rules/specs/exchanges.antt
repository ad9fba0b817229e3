pub mod KeyOrder
pub mod Namings
pub mod Openings
pub mod Beginnings
pub mod Belonging
pub mod CleanReuse
pub mod Payloads
