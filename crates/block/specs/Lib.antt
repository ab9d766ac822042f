pub mod Block
pub mod BlockLaws
