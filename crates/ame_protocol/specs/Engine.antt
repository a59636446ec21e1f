pub mod Logged
pub mod Parts
pub mod StandsFor
pub mod Tasks
pub mod Simulates
pub mod Events
pub mod Shown
pub mod Alone
