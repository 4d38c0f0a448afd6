pub mod OrderLaws
pub mod Vectors
