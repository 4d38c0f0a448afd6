pub mod OrderLaws
pub mod RenewalLaws
pub mod SameLaws
pub mod WalkLaws
pub mod NoGap
pub mod Example
