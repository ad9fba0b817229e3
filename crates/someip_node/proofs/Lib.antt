pub mod QuietLemmas
pub mod HandledLemmas
pub mod WithinLemmas
pub mod RefusalLemmas
