pub mod UntailedLaws
