pub mod FieldLaws
pub mod DayLaws
