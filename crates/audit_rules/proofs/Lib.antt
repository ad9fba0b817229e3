mod WeighingLemmas
pub mod RulelessLemmas
