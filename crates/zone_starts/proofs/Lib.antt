pub mod FillLaws
pub mod PutLaws
