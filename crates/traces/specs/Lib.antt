pub mod Traces
pub mod Walk
