pub mod Cells
pub mod Shows
pub mod Stays
pub mod Edits
pub mod Makes
pub mod Removes
pub mod Commits
pub mod Maps
