pub mod Functions
pub mod Received
