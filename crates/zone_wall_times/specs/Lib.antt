pub mod ZoneMapping
