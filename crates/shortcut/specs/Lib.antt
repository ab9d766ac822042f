pub mod Read
pub mod Strings
pub mod Spelled
pub mod Full
pub mod Same
pub mod Row
