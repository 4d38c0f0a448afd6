pub mod CountLaws
pub mod WriteLaws
pub mod PlaceLaws
