pub mod Eased
pub mod Forgiven
pub mod Never
pub mod Alike
pub mod Answers
