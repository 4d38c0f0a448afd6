pub mod KeyLaws
pub mod EntryLaws
pub mod PairLaws
pub mod Vectors
