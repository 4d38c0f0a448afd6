pub mod PieceLaws
pub mod CallLaws
pub mod HeldLaws
pub mod Examples
