pub mod Plain
pub mod Returned
