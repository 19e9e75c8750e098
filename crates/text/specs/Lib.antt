pub mod Text
pub mod Decimal
pub mod Buffer
