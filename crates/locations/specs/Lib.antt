pub mod Content
pub mod Find
pub mod Sound
