pub mod ReplyLaws
pub mod IntegerLaws
