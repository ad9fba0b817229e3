pub mod StepLemmas
pub mod SequenceLemmas
pub mod ReasonLemmas
