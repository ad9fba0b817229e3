pub mod NetworkLemmas
pub mod FaultLemmas
