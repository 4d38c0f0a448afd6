pub mod MomentLaws
pub mod LaterLaws
pub mod MomentWriteLaws
pub mod TransitionLaws
