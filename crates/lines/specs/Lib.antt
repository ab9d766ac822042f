pub mod Lines
pub mod Sizes
pub mod Spaced
