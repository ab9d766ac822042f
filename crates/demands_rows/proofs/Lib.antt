pub mod Answers
pub mod Decimals
pub mod Locations
pub mod WriterRows
