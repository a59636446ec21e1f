pub mod Layout
pub mod Tokens
pub mod Printer
pub mod Again
