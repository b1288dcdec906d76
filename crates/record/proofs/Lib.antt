pub mod Laws
pub mod RoundTrip
pub mod Verdicts
pub mod Edges
