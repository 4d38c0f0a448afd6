pub mod OldText
pub mod Facts
