pub mod Passed
pub mod Record
pub mod Kept
