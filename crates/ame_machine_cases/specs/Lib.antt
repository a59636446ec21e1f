pub mod Cells
pub mod Alone
