pub mod Counts
pub mod Reads
pub mod Writes
pub mod Lines
pub mod InMemory
