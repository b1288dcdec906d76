pub mod Edit
pub mod Copy
