-- Texts in either encoding.
pub mod Strings
pub mod Utf8Texts
pub mod Utf16Units
pub mod Utf16Texts
pub mod TextLemmas
pub mod PaddedTexts
