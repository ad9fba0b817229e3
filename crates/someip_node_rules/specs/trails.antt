-- Which rule gave what, for those who prove more of nodes.
pub mod Copies
pub mod Trails
pub mod Packets
pub mod Replies
pub mod Bringing
pub mod SendingRules
pub mod Meanings
pub mod Meetings
