pub mod Table
pub mod Rows
pub mod Verdicts
pub mod FirstRow
pub mod Writing
