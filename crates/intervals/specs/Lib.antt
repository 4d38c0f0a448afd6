pub mod Interval
pub mod Sound
pub mod Scan
pub mod Short
pub mod InOrder
