pub mod AliasLaws
pub mod WalkingLaws
pub mod AskLaws
pub mod GrowLaws
pub mod NameLaws
pub mod Vectors
