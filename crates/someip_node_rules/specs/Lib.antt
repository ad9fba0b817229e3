pub mod forms
pub mod histories
pub mod rules
pub mod steps
pub mod trails
