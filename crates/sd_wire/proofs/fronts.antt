-- How entries are split into messages.
pub mod SplitLemmas
pub mod FrontLemmas
pub mod AloneLemmas
