pub mod Values
pub mod Location
pub mod LocationMarks
