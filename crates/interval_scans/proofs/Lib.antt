pub mod StartFormLaws
