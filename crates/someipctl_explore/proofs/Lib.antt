pub mod WordLemmas
pub mod ReadLemmas
pub mod LineLemmas
pub mod StepLemmas
pub mod TextLemmas
pub mod GoalLemmas
pub mod CommandLemmas
pub mod NoteLemmas
