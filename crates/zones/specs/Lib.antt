pub mod Content
pub mod Parse
pub mod Sound
pub mod Intervals
pub mod Editions
pub mod Lookup
pub mod View
pub mod InOrder
