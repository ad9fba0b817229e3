-- Lists and maps, as far as several proofs count in them.
pub mod CountLemmas
pub mod MemberLemmas
pub mod KeyCounts
