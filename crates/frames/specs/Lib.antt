pub mod Frame
pub mod Machine
pub mod Fields
pub mod Covers
pub mod Mapped
