pub mod WalkLaws
pub mod LookupLaws
