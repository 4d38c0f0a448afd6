pub mod Difference
pub mod Numbers
pub mod Means
pub mod View
