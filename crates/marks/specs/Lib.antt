pub mod Line
pub mod Edges
