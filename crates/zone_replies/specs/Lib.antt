pub mod Zones
pub mod Small
