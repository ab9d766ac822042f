pub mod Lines
pub mod Area
pub mod Sizes
pub mod Counting
pub mod Paper
