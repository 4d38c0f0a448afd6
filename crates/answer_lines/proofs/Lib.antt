pub mod DecimalLaws
pub mod ReplyLaws
