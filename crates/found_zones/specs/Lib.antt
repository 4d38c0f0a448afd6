pub mod FoundZone
pub mod View
