pub mod Count
pub mod Channel
