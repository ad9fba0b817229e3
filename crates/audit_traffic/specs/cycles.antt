pub mod WatchPlaces
pub mod PlaceOrder
pub mod CycleRules
pub mod CycleTables
pub mod CycleHistories
pub mod CycleReasons
pub mod CycleExamples
