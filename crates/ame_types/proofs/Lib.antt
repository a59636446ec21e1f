pub mod Nodes
pub mod SharedLemmas
pub mod UnaryLemmas
pub mod Parts
pub mod Faults
pub mod SizeLemmas
