pub mod Placed
pub mod Name
pub mod Short
pub mod Long
pub mod Usual
