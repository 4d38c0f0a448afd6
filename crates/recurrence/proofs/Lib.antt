pub mod CycleLaws
pub mod SearchLaws
pub mod LookupLaws
pub mod IntervalLaws
pub mod Examples
