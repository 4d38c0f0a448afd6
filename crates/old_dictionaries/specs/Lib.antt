pub mod OldDictionary
pub mod Pairs
pub mod View
pub mod Facts
