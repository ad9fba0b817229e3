pub mod ServiceLines
pub mod ChosenLines
pub mod ServiceText
