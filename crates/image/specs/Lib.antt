pub mod Image
pub mod Keeps
pub mod Rest
pub mod ImageLaws
pub mod Accepted
