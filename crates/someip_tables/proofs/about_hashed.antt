pub mod Hashed
pub mod FirstDues
pub mod BackDues
pub mod RetainedDues
pub mod NumberLemmas
