pub mod Table
pub mod Facts
