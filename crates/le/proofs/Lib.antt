pub mod Choices
pub mod Tallies
pub mod Bools
pub mod Parts
pub mod Fields
pub mod Layouts
pub mod Turns
