pub mod Places
pub mod Entries
pub mod Scans
pub mod RowParts
pub mod Ranges
pub mod Edges
pub mod Decides
pub mod Stale
