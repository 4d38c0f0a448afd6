pub mod CodeLaws
pub mod ZoneLaws
