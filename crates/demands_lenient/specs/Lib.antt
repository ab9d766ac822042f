pub mod Plain
pub mod Leniently
