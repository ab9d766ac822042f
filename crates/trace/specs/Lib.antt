pub mod Trace
pub mod TraceLaws
