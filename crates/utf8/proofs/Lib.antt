pub mod Utf8Laws
pub mod EncodeLaws
pub mod DecodeLaws
pub mod AsciiLaws
