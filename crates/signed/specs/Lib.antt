pub mod Number
pub mod Instant
pub mod OffsetSum
pub mod Zigzag
