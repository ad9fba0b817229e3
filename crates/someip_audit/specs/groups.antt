pub mod GroupKeys
pub mod GroupOrder
pub mod GroupTables
pub mod GroupHistories
