pub mod Keys
pub mod Numbers
pub mod Lines
pub mod Words
