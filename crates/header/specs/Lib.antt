pub mod Header
pub mod Copies
