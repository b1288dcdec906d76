pub mod Ends
pub mod Digits
pub mod Texts
pub mod Puts
pub mod Round
pub mod Joins
