pub mod LearnerLemmas
