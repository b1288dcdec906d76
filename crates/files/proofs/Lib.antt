pub mod Opens
pub mod Ways
pub mod Keeps
