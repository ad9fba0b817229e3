pub mod Shapes
pub mod StepLemmas
pub mod Strings
mod Writes
pub mod ErrorKinds
mod Characters
mod OtherNumbers
mod OtherNames
mod ValueTexts
mod FloatsSaid
pub mod FloatTexts
pub mod ToldTexts
