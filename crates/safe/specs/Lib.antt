pub mod Copy
pub mod Mounts
pub mod Inv
