-- The body in memory that is reserved once: intervals of held blocks, the room of a part, and the slots.
pub mod Intervals
pub mod BlockLemmas
pub mod RoomLemmas
pub mod PoolLemmas
pub mod SlotLemmas
pub mod RisingLemmas
