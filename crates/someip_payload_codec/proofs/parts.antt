-- What is left to read: numbers, bodies, and one after the other.
pub mod Loops
pub mod Parts
pub mod PartFaults
pub mod Shorter
pub mod Forms
