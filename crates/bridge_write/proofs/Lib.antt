pub mod Gone
pub mod Volumes
