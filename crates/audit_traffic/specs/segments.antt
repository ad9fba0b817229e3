pub mod MessageKeys
pub mod SegmentWaits
pub mod SegmentBooks
pub mod Pieces
