pub mod Differ
pub mod View
