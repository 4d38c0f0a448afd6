pub mod OldCountLaws
pub mod OldCountWriteLaws
pub mod Vectors
