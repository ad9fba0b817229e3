pub mod forms
pub mod trails
pub mod histories
pub mod lists
pub mod rules
