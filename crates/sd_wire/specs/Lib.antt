pub mod contents
pub mod layout
pub mod decoding
pub mod encoding
pub mod fronts
pub mod Examples
