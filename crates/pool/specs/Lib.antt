pub mod Pool
pub mod Index
pub mod Facts
