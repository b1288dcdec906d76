pub mod Walked
pub mod Placed
pub mod Named
pub mod Oldest
pub mod Listed
pub mod Chunks
pub mod Chains
pub mod Listings
