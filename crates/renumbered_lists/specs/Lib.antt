pub mod Renamed
pub mod Answers
