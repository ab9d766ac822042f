pub mod FileLines
pub mod Walks
pub mod Told
