-- What is given, replied and met says of the rule that did it.
pub mod WrittenLemmas
pub mod TrailLemmas
pub mod ReplyLemmas
pub mod MeaningLemmas
pub mod MeetingLemmas
