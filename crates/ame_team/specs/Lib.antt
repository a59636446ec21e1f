pub mod Rooms
pub mod Teams
