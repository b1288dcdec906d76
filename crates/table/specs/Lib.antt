pub mod Link
pub mod Table
pub mod Free
