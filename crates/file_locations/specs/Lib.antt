pub mod ByField
