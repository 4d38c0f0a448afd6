pub mod FindLaws
pub mod AnswerLaws
pub mod GiveLaws
pub mod MeansLaws
pub mod MostLaws
pub mod Worked
