-- The check of a delivery finds what breaks clean reuse.
pub mod OldChecks
pub mod MixedTests
pub mod MixedChecks
pub mod CheckLemmas
