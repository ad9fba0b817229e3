pub mod about_calls
pub mod about_cycles
pub mod about_events
pub mod about_gaps
pub mod about_segments
pub mod about_sequence
pub mod about_ways
