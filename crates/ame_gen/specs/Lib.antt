pub mod Stream
pub mod Transfers
pub mod Balances
pub mod Template
