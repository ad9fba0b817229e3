-- What a node sends fits its fields.
pub mod FitItems
pub mod FitEntries
pub mod FitRules
pub mod FitPlans
pub mod FitPackets
pub mod FitExamples
