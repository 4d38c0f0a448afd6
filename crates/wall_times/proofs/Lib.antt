pub mod NumberLaws
pub mod CountLaws
pub mod TickedLaws
pub mod MapLaws
pub mod WayLaws
pub mod EndsLaws
pub mod MostLaws
pub mod Worked
