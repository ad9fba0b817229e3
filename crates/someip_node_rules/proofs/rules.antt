-- What plans keep, and by which rules an input is taken.
pub mod PlanLemmas
pub mod EntryRules
pub mod DatagramRules
pub mod StepRules
