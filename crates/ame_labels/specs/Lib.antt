pub mod Marked
pub mod Stepped
pub mod Steppers
pub mod EntryNumbers
pub mod Ledger
pub mod WeakOrder
pub mod Orders
pub mod Front
