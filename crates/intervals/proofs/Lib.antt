pub mod ScanLaws
pub mod SoundLaws
pub mod StandardLaws
pub mod ShortLaws
pub mod InOrderLaws
pub mod Vectors
pub mod FormLaws
