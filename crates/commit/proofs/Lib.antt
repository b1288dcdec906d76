pub mod Absent
pub mod Steps
pub mod Commits
pub mod Keeps
pub mod Current
