-- Events that are handed up were published and sent.
pub mod EventTests
pub mod SentEvents
pub mod SafeEvents
pub mod PublicationLemmas
