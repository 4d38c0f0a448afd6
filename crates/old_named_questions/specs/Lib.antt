pub mod OldNamed
pub mod View
