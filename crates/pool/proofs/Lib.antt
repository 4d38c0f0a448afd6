pub mod FillLaws
pub mod CheckLaws
pub mod StringLaws
pub mod PoolLaws
pub mod Vectors
