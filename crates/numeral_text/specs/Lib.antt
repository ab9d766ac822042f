pub mod NumeralText
pub mod Stored
