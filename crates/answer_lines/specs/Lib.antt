pub mod Decimal
pub mod Reply
