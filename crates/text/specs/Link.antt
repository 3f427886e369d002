pub mod NumberBounds
pub mod Decimal
