pub mod FiveLaws
