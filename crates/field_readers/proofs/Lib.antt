pub mod TakeLaws
pub mod FlagLaws
pub mod ConclusionLaws
