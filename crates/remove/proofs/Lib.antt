pub mod Ways
pub mod Keeps
