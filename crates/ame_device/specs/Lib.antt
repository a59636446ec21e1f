pub mod Calls
pub mod InMemory
pub mod Kinds
pub mod Sums
