pub mod JudgeLaws
pub mod WalkingLaws
pub mod HeldLaws
