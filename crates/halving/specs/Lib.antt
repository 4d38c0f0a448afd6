pub mod Halving
pub mod Facts
pub mod Looks
