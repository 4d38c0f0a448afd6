pub mod ReadyLaws
pub mod VersionLaws
