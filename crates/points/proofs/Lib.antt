pub mod Scans
pub mod Offers
pub mod Ends
