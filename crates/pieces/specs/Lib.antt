pub mod Content
pub mod View
pub mod Form
