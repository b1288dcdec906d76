pub mod Choice
pub mod Tally
pub mod Part
pub mod Field
pub mod Layout
