pub mod Ids
pub mod Layout
pub mod Parts
pub mod Memory
