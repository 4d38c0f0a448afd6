pub mod OldOffset
pub mod Facts
