pub mod MissingKeys
pub mod MissingOrder
pub mod GapRules
pub mod GapTables
