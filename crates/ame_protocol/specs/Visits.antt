pub mod ByAct
pub mod Visit
pub mod Stops
pub mod Opened
