-- What holds step by step of a run, and of its lines.
pub mod EachNode
pub mod SameStep
pub mod SafeRuns
pub mod CleanLemmas
pub mod LineLemmas
pub mod CountLemmas
