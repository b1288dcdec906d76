pub mod Split
pub mod Edges
