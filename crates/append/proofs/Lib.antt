pub mod Then
pub mod Ways
pub mod Facts
pub mod Keeps
pub mod Rolls
pub mod Runs
pub mod Owns
pub mod Offers
