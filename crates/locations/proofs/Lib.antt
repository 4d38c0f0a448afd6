pub mod ReadLaws
pub mod FindLaws
pub mod Vectors
pub mod SoundLaws
