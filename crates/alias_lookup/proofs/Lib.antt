pub mod LookupLaws
pub mod TargetLaws
pub mod FlagLaws
pub mod FindLaws
pub mod ResolveLaws
