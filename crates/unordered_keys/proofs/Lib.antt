pub mod WiderLaws
pub mod KeyLaws
pub mod StepLaws
