pub mod Groups
pub mod Count
pub mod SignedCount
pub mod Fixed
pub mod Facts
