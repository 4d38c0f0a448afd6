pub mod Reads
pub mod Tally
pub mod Instants
pub mod View
