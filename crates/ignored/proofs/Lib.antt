pub mod Areas
pub mod Images
pub mod ReadsLaws
