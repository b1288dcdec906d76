pub mod Checked
pub mod Rows
pub mod Chain
