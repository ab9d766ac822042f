pub mod Until
pub mod Turns
pub mod Counted
