-- What a history answers: what is up, live, known, and waits.
pub mod NamedLemmas
pub mod TimeLemmas
pub mod LiveLemmas
pub mod WaitLemmas
pub mod UpLemmas
pub mod DroppedAnswers
