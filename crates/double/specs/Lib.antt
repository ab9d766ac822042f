pub mod Double
pub mod Rounded
