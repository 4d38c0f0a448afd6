pub mod Tables
pub mod Years
pub mod Months
pub mod Dates
pub mod Numbering
