-- Numbers, options and entries in their bytes.
pub mod TestLemmas
pub mod FieldLemmas
pub mod OptionSpelling
pub mod OptionRead
pub mod EntrySpelling
