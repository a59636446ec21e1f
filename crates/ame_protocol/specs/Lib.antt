pub mod Row
pub mod Engine
pub mod Waits
pub mod Visits
pub mod Bounds
pub mod Event
