pub mod ZoneLaws
pub mod ReplyLaws
