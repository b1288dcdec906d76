pub mod Appender
pub mod Flush
pub mod Calls
