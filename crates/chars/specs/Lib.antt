pub mod Chars
pub mod Runs
