pub mod Dictionary
pub mod Field
pub mod Pairs
pub mod View
