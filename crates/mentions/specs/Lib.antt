pub mod Walk
pub mod Content
pub mod View
pub mod Renumbers
