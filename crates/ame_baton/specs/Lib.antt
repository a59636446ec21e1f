pub mod Seats
pub mod Rule
pub mod Batons
pub mod Keeping
pub mod Tallies
pub mod Counted
