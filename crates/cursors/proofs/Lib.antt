pub mod CursorLaws
pub mod StepLaws
pub mod OpenLaws
