pub mod ReplayLaws
pub mod FirstLaws
pub mod OpenLaws
