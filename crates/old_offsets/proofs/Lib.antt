pub mod OldOffsetLaws
pub mod OldOffsetWriteLaws
pub mod Vectors
