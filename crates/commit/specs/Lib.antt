pub mod Commit
