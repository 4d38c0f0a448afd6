pub mod Lookup
pub mod View
