pub mod ListLaws
pub mod InstantLaws
pub mod CountLaws
pub mod DayLaws
pub mod ScanLaws
pub mod WayLaws
pub mod FindLaws
pub mod MostLaws
