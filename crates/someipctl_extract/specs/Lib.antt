pub mod Kept
pub mod Codes
pub mod Extraction
pub mod Extracted
