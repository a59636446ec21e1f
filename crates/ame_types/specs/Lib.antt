pub mod Limits
pub mod Shared
pub mod Fault
pub mod Sizes
pub mod Unary
pub mod Scope
pub mod Checks
