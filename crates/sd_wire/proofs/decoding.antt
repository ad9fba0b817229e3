-- What bytes are read as, and their first fault.
pub mod OptionLemmas
pub mod EntryLemmas
pub mod EndpointLemmas
pub mod ReadingLemmas
pub mod SdLemmas
pub mod FaultLemmas
pub mod PlaceLemmas
