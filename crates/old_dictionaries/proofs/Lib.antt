pub mod PlaceLaws
pub mod PairLaws
pub mod EntryLaws
pub mod DictionaryLaws
pub mod Vectors
pub mod DictionaryWriteLaws
