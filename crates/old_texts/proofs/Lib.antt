pub mod OldTextLaws
pub mod Vectors
