pub mod Untailed
