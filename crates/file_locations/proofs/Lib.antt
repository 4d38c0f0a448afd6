pub mod ByFieldLaws
