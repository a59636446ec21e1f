pub mod Workload
pub mod SameTokens
