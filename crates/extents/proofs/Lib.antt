pub mod SpanLaws
pub mod FieldLaws
pub mod ExtentLaws
pub mod Examples
