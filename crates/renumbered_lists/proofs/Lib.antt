pub mod NameLaws
pub mod AliasLaws
pub mod LocationLaws
pub mod BelowLaws
pub mod ViewLaws
pub mod AnswerLaws
pub mod Vectors
