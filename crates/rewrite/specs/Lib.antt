pub mod Preferred
pub mod Numbers
pub mod Kept
