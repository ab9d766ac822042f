pub mod Accepted
pub mod RestLaws
