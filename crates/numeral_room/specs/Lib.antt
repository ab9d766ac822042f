pub mod Fitted
pub mod Sizes
