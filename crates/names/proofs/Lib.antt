pub mod Segments
pub mod Zeros
pub mod Laws
pub mod Edges
pub mod Dots
pub mod Passes
