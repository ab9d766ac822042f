pub mod Opening
pub mod OpeningLaws
