pub mod StringLines
pub mod Turns
pub mod Walks
