pub mod Refusal
pub mod Sector
pub mod Frame
