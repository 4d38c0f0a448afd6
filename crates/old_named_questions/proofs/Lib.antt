pub mod TargetLaws
pub mod FollowLaws
pub mod AskLaws
pub mod Vectors
