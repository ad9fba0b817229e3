-- What the datagrams of a run say is what was given.
pub mod ApplicationLemmas
pub mod ContentLemmas
pub mod OutputLemmas
pub mod SentReadings
pub mod StreamReading
pub mod OwnSubscribes
