pub mod Locations
pub mod Small
