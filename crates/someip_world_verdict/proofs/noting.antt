-- What is kept of datagrams and payloads.
pub mod Zipped
pub mod PayloadNumbers
pub mod NumberSteps
pub mod NoteSteps
pub mod DeliveryNotes
