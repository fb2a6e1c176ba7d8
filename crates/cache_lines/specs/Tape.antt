pub mod Rooms
pub mod Taped
