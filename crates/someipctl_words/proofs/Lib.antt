pub mod ClapWalkLemmas
pub mod CommandLineLemmas
