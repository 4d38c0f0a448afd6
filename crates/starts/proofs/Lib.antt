pub mod WayLaws
pub mod AskLaws
pub mod JoinLaws
