pub mod Value
pub mod Digits
pub mod LastDigits
