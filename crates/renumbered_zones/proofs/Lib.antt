pub mod IntervalLaws
pub mod TailLaws
pub mod ZoneLaws
pub mod LookupLaws
pub mod Vectors
