pub mod Fields
pub mod Decimal
