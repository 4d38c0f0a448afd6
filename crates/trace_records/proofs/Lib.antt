pub mod NextLaws
pub mod PassedLaws
pub mod ShownLaws
pub mod KeptLaws
