pub mod SlotLemmas
pub mod KeysAtLemmas
pub mod OwnerLemmas
pub mod PlaceLemmas
