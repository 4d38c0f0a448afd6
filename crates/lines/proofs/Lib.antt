pub mod QuestionLaws
pub mod SplitLaws
pub mod Cases
