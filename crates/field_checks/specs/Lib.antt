pub mod Check
pub mod File
pub mod Numbers
pub mod Version
pub mod VersionPart
