pub mod Keys
pub mod Treating
pub mod Saying
pub mod Told
pub mod Inputs
pub mod Scenes
