pub mod WalkLaws
pub mod ContentLaws
pub mod PrintLaws
pub mod FrontLaws
pub mod StepLaws
pub mod AgainLaws
pub mod Vectors
