pub mod SessionLemmas
pub mod PendingLemmas
pub mod RequestLemmas
pub mod OpenLemmas
pub mod CopyLemmas
