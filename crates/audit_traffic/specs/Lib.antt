pub mod calls
pub mod cycles
pub mod events
pub mod gaps
pub mod segments
pub mod sequence
pub mod ways
