pub mod Acts
pub mod Claim
pub mod Pins
