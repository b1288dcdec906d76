pub mod Handles
pub mod Body
