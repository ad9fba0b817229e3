-- How a message lies in its bytes.
pub mod Fields
pub mod Spelling
pub mod Layout
