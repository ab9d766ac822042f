pub mod Number
pub mod Agreed
pub mod Marks
pub mod Meaning
