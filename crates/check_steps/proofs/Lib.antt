pub mod StepLaws
pub mod FlagLaws
pub mod PassLaws
