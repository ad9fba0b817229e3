-- The whole payload: what is read is spelled so, what is spelled so is read, and the first fault.
pub mod Sound
pub mod Complete
pub mod First
pub mod Whole
pub mod ErrorKinds
pub mod Exact
