pub mod SignLaws
pub mod IntegerLaws
pub mod NumberLaws
pub mod OrderLaws
pub mod TickLaws
