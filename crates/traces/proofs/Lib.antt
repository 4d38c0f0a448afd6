pub mod NumberLaws
pub mod TraceLaws
pub mod Worked
