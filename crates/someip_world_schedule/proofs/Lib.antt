pub mod ReadLemmas
pub mod StepLemmas
pub mod LineLemmas
pub mod EndpointLemmas
pub mod PayloadLemmas
pub mod ScheduleLemmas
