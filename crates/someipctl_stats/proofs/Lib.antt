mod ExampleLemmas
pub mod CountingLemmas
pub mod AccountLemmas
pub mod OneTextLemmas
pub mod ChosenLemmas
pub mod SameTextLemmas
