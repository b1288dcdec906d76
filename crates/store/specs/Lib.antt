pub mod Asked
pub mod Reading
pub mod Writing
pub mod Opening
pub mod Edges
pub mod Dots
pub mod Widths
