pub mod Tail
pub mod Sound
pub mod View
pub mod InOrder
