pub mod Noted
pub mod Waiting
pub mod Left
pub mod Once
pub mod Certificates
