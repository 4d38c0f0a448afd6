pub mod NameLaws
pub mod WalkLaws
