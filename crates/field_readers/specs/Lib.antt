pub mod Remembered
pub mod Flags
