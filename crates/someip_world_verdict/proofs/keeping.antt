-- What is kept of keys and counters, over a step.
pub mod TakenSteps
pub mod SaidSteps
pub mod SubscribeSteps
pub mod CounterSteps
pub mod CallSteps
pub mod EventSteps
pub mod KeySteps
