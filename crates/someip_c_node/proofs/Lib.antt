pub mod CopyLemmas
pub mod NamedLemmas
pub mod CallLemmas
pub mod ConfigLemmas
pub mod TakingLemmas
pub mod StartLemmas
mod LineLemmas
mod FaultLemmas
mod SameLemmas
mod ActLemmas
pub mod LogLemmas
