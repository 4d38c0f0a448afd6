pub mod PaddingLaws
pub mod Example
