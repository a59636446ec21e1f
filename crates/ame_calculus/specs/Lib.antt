pub mod Renamed
pub mod Blocked
pub mod Independent
