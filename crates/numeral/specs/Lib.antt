pub mod Leading
pub mod Numeral
pub mod Answers
pub mod Plain
pub mod Returned
