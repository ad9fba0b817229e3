pub mod Contents
pub mod Streams
pub mod StreamOrder
pub mod Books
pub mod Booking
pub mod Judging
pub mod Views
pub mod VerdictExamples
