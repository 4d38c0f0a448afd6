pub mod RenumberLaws
pub mod NextLaws
pub mod UseLaws
