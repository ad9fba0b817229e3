pub mod IntakeLemmas
pub mod CarriedLemmas
pub mod CountLemmas
pub mod about_copies
pub mod about_fragments
