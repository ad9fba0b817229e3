-- The one text of a message.
pub mod Writing
pub mod Written
pub mod Encoding
