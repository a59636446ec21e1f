pub mod Out
pub mod Devices
pub mod Checked
pub mod Typed
pub mod Version
pub mod CallResult
