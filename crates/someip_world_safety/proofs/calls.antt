-- Calls that wait, and requests that are open: which call they are of.
pub mod CallItems
pub mod WaitingCalls
pub mod RequestItems
pub mod StepRequests
pub mod ServerRequests
pub mod TakenCalls
pub mod SentCalls
pub mod MadeCalls
