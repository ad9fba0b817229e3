pub mod Kinds
pub mod Fitting
pub mod RuleCodes
pub mod Scenes
pub mod Weighing
