pub mod Answers
pub mod Forgiven
pub mod Never
