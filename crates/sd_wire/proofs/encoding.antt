-- The one text of a message.
pub mod PoolLemmas
pub mod PackLemmas
pub mod WriteLemmas
pub mod EncodingLemmas
