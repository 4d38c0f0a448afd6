pub mod Stretches
pub mod Maximal
pub mod View
