pub mod rules
pub mod examples
pub mod histories
pub mod fits
