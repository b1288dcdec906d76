pub mod Pens
pub mod Gathers
pub mod Counts
pub mod Feeds
pub mod Whole
pub mod Streams
