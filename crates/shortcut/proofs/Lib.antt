pub mod Full
pub mod Row
pub mod Same
pub mod Spelled
pub mod Strings
