pub mod OffsetLaws
pub mod OffsetWriteLaws
