pub mod Renewal
pub mod Gapless
pub mod Walk
