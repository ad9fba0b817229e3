pub mod CountedFlows
pub mod Sequences
pub mod SequenceHistories
pub mod SequenceExamples
pub mod SequenceReasons
