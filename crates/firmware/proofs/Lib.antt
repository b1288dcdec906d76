pub mod Bounds
pub mod Ways
pub mod Stale
pub mod Ample
