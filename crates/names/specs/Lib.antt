pub mod Names
pub mod Edges
