pub mod StepLaws
pub mod TicksLaws
pub mod RunLaws
