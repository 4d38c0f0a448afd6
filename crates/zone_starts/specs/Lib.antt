pub mod Starts
pub mod View
