pub mod Low
pub mod RoundTrip
pub mod WeakTries
