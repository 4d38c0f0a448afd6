pub mod LocationLaws
