pub mod SameTails
