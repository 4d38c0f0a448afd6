pub mod MoveLaws
pub mod RuleLaws
