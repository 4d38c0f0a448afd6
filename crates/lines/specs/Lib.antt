pub mod Question
pub mod Splitting
