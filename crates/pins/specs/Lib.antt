pub mod Degrees
pub mod Nearest
