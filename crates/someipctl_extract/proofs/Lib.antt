pub mod KeptLemmas
pub mod ExtractionLemmas
pub mod ExtractingLemmas
