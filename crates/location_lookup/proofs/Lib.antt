pub mod LookupLaws
pub mod PinLaws
