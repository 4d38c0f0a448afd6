pub mod KindLaws
pub mod WellFormedLaws
pub mod ZoneIdLaws
pub mod VersionLaws
pub mod FileLaws
pub mod TextLaws
pub mod PartLaws
pub mod Vectors
