pub mod SamePackets
pub mod QueueLemmas
pub mod SlotLemmas
pub mod Turns
pub mod Noted
pub mod Costs
pub mod RecordingLemmas
