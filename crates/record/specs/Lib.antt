pub mod Record
pub mod Edges
