pub mod Order
pub mod Fill
