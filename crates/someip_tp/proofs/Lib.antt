pub mod promises
pub mod reserved_memory
