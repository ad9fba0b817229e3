-- Packets that were recorded twice.
pub mod Remembered
pub mod Recordings
pub mod Examples
pub mod Marks
pub mod Owned
pub mod Queues
pub mod Slots
pub mod Tables
