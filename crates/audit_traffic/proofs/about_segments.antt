pub mod WaitLemmas
pub mod MissingLemmas
