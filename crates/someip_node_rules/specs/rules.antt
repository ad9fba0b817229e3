-- What a node does: its rules, the plans that they make, and what each input brings about.
pub mod Outcomes
pub mod Messages
pub mod Learning
pub mod ServerSubscribing
pub mod Offering
pub mod Announcing
pub mod Ticking
pub mod Calling
pub mod Answering
pub mod Publishing
pub mod ClientSubscribing
pub mod Plans
pub mod Handling
pub mod Inputs
pub mod DropNames
pub mod Errors
