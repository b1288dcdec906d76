pub mod Lines
pub mod Parted
pub mod Round
pub mod Edges
