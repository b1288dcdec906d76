pub mod Opened
pub mod Create
