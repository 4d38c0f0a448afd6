pub mod Vectors
pub mod MentionLaws
pub mod PoolLaws
pub mod PlaceLaws
pub mod OrderLaws
pub mod AgainLaws
