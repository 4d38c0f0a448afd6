pub mod GroupWriteLaws
pub mod AnyGroupLaws
pub mod GroupLaws
pub mod ShortestLaws
pub mod CountLaws
pub mod SignedCountLaws
pub mod FixedLaws
