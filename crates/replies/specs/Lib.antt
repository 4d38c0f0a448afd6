pub mod Reply
pub mod Functions
pub mod Small
