pub mod ZoneMapLaws
