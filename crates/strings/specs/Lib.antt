pub mod Strings
pub mod Frames
pub mod Texts
pub mod Walks
pub mod Passed
pub mod Followed
pub mod Spelled
pub mod Paper
