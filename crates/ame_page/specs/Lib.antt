pub mod Columns
pub mod Escapes
