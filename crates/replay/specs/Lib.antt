pub mod Reports
pub mod Facts
pub mod View
