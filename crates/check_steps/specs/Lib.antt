pub mod Cursor
pub mod Flags
pub mod Passed
pub mod Room
