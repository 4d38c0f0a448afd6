pub mod FillLaws
pub mod OrderLaws
pub mod NumberLaws
pub mod Vectors
