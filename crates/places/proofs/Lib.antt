pub mod PlaceLaws
pub mod ValueLaws
pub mod ShortLaws
pub mod OneLaws
pub mod LongLaws
pub mod UsualLaws
