pub mod StepLaws
pub mod CountLaws
pub mod BodyLaws
pub mod PairLaws
