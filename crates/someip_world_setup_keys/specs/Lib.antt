pub mod Keys
pub mod Lists
pub mod KnownKeys
pub mod Values
pub mod SaidByKeys
pub mod Clashes
pub mod Made
pub mod Refusals
