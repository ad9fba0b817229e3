-- What a message says, apart from its bytes.
pub mod Raw
pub mod Values
pub mod Kinds
pub mod Endpoints
