pub mod WallTime
pub mod Numbers
pub mod Facts
pub mod View
