pub mod Receive
pub mod Calls
pub mod OnHeld
