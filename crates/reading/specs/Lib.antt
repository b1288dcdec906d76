pub mod Gives
pub mod GivesTo
pub mod GivesUpto
pub mod Below
