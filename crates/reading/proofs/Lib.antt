pub mod Turns
pub mod Rest
pub mod Places
pub mod Reading
pub mod Upto
