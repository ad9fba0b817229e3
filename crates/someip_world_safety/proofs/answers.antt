-- Answers that are handed up were produced for their call.
pub mod Produced
pub mod ProducedAnswers
pub mod AnswerTests
pub mod AnsweredCalls
pub mod SafeAnswers
pub mod AnswerAlone
pub mod AnswerOpenings
