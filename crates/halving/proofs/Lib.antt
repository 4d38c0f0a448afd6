pub mod StepLaws
pub mod LookLaws
pub mod HalvingLaws
pub mod Worked
