pub mod NumberLemmas
pub mod LineLemmas
pub mod FoundLemmas
pub mod TextLemmas
pub mod HexTexts
