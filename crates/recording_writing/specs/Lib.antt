pub mod Blocks
pub mod Files
