pub mod Shows
pub mod Doomed
pub mod SoFar
pub mod Kinds
pub mod Stopped
pub mod Backs
