-- Verdicts on worked runs, computed.
pub mod WorkedSteps
pub mod LateAnswers
pub mod LastLines
pub mod WorkedVerdicts
