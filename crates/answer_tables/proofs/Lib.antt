pub mod RowLaws
pub mod TableLaws
pub mod AnswerLaws
pub mod ListLaws
pub mod Worked
