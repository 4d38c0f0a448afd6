pub mod Extent
pub mod Span
