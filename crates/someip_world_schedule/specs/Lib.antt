pub mod StepWords
pub mod Steps
pub mod StepNodes
pub mod Schedule
