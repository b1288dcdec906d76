pub mod Reader
pub mod Next
pub mod Blank
pub mod Calls
pub mod Upto
pub mod Earlier
