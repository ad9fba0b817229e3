pub mod View
pub mod Grammar
pub mod Texts
pub mod Reading
pub mod Faults
pub mod Indexes
