pub mod SpanLaws
pub mod FindLaws
pub mod AskLaws
pub mod InsideLaws
pub mod SameLaws
