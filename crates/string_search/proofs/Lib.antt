pub mod SuffixLaws
pub mod SearchLaws
pub mod PoolStringLaws
