-- Subscriptions that stand: which exchange they are, and that their server accepted them.
pub mod EntryInputs
pub mod SentEntries
pub mod AnsweredEntries
pub mod RuleItems
pub mod LiarOpenings
pub mod StepStandings
pub mod AckWays
pub mod AckAlone
pub mod AckLemmas
pub mod StandingLemmas
pub mod StandingOpenings
pub mod SentCounters
pub mod SubscribeOpenings
pub mod EntryOpenings
pub mod InjectedReplies
pub mod AcknowledgedLemmas
