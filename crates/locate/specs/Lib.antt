pub mod Asked
pub mod View
