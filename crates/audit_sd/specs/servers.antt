pub mod ServerKeys
pub mod ServerOrder
pub mod ServerRules
pub mod ServerTables
pub mod ServerHistories
pub mod ServerReasons
pub mod ServerExamples
