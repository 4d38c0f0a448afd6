pub mod ReadLaws
pub mod SoundLaws
pub mod PartitionLaws
pub mod EditionLaws
pub mod RangeLaws
pub mod StandardLaws
pub mod EndLaws
pub mod InOrderLaws
