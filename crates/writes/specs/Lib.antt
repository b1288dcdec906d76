pub mod Writes
pub mod More
