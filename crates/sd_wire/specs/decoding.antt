-- What bytes are read as, and their first fault.
pub mod Reading
pub mod Faults
pub mod Program
pub mod Steps
