pub mod Followed
pub mod Frames
pub mod Paper
pub mod Passed
pub mod Walks
pub mod Steps
