pub mod spelled
pub mod decoding
pub mod encoding
pub mod fronts
