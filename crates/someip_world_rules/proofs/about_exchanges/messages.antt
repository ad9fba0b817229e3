-- Messages that came, and what was sent for them.
pub mod WholeLemmas
pub mod EntryLemmas
pub mod LongMessages
pub mod LiarBreaks
