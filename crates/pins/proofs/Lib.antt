pub mod DegreesLaws
pub mod Vectors
pub mod ClosestLaws
pub mod GapLaws
pub mod NearestLaws
