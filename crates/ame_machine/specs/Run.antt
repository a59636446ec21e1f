pub mod Local
pub mod AgreesWith
pub mod Told
pub mod Fit
