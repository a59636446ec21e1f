pub mod Calls
pub mod Reached
pub mod OneRun
pub mod Commands
pub mod Repeats
