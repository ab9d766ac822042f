pub mod Questions
pub mod Leaves
pub mod Reach
pub mod Listed
pub mod Answers
