pub mod Digits
pub mod Words
pub mod Counts
pub mod First
pub mod Puts
pub mod Rule
pub mod Upto
