-- What is kept of the present lives of nodes, over a step.
pub mod LifeSpans
pub mod LifeSteps
pub mod RestartSteps
pub mod ClockSpans
pub mod ClockSteps
pub mod SessionSteps
pub mod TakenSpans
pub mod TokensTold
pub mod TokenSteps
pub mod ArrivalSteps
pub mod TakenLives
