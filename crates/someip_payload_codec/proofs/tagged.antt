-- Tagged structures, item by item.
pub mod TagLemmas
pub mod TaggedLoops
pub mod TaggedSound
pub mod TaggedAgain
pub mod TaggedFirst
pub mod TaggedWritten
