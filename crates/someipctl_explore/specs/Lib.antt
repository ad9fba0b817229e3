pub mod StepLines
pub mod WholeSteps
pub mod ResultTexts
pub mod GoalTexts
pub mod MovesTexts
pub mod Noting
pub mod Commands
