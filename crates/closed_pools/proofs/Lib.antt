pub mod TextsLaws
pub mod IndexLaws
