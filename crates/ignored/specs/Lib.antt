pub mod Areas
pub mod Images
pub mod Data
pub mod Reads
