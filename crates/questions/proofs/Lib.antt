pub mod OutcomeLaws
pub mod AskLaws
pub mod NameLaws
pub mod HeldLaws
