pub mod Dues
pub mod Origins
pub mod Rooms
pub mod EndpointNumbers
