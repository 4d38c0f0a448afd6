pub mod StepLaws
pub mod StretchLaws
