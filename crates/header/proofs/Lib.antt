pub mod Words
pub mod Fill
pub mod RoundTrip
pub mod Ways
pub mod Range
pub mod Accepted
pub mod Stale
pub mod Edges
