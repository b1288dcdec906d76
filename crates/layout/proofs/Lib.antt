pub mod Facts
pub mod Tallies
pub mod Unchanged
pub mod Records
pub mod Extends
pub mod Creates
pub mod Removes
pub mod Judged
