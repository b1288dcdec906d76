pub mod Look
pub mod Told
pub mod Set
pub mod Reading
