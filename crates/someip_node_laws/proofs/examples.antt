-- The worked run and other examples, by computation.
pub mod LimitExampleLemmas
pub mod OneEntryLemmas
pub mod StepLemmas
pub mod ServerRun
pub mod ServerEvents
pub mod ClientRun
pub mod ClientEvents
pub mod StepTrails
pub mod CameExamples
