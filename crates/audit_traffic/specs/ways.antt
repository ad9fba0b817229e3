pub mod WayKeys
pub mod WayOrder
pub mod WayTables
pub mod WayHistories
