pub mod UnreadLaws
pub mod CountLaws
pub mod UseLaws
pub mod PlainLaws
pub mod SameLaws
