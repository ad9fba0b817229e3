-- Messages that come, whole or in segments, were given as they came.
pub mod WholeGiven
pub mod PartWalks
pub mod SentSegments
pub mod HeldParts
pub mod HeldRuns
pub mod CameGiven
pub mod OneMessage
pub mod RepliesBack
