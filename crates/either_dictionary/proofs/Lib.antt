pub mod EitherLaws
