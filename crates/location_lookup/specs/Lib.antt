pub mod Location
pub mod Country
pub mod Numbers
