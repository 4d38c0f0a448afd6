pub mod SizedLaws
pub mod TextLaws
pub mod TextWriteLaws
pub mod RefusalLaws
pub mod Vectors
