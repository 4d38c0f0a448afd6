pub mod PieceLaws
pub mod PutLaws
pub mod FormLaws
pub mod SizeLaws
pub mod CodeLaws
pub mod GoingLaws
pub mod HeadLaws
