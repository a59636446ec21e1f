pub mod Seats
pub mod Rollbacks
pub mod Tries
pub mod FewRollbacks
pub mod Spent
pub mod Untried
