pub mod Counts
pub mod Ways
pub mod Opens
