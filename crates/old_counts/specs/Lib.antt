pub mod OldCount
pub mod Facts
