pub mod Needed
pub mod Run
pub mod Turned
