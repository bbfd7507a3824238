pub mod Chaining
pub mod Rooms
pub mod Taking
pub mod Crossing
