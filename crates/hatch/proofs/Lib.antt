pub mod Alike
pub mod Acts
pub mod Files
pub mod Stops
pub mod Looks
pub mod Said
pub mod Pins
