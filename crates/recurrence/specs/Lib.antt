pub mod Search
pub mod Tails
pub mod Facts
