pub mod Samples
pub mod Loss
pub mod Worked
