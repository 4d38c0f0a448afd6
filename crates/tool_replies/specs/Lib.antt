pub mod Functions
pub mod Small
