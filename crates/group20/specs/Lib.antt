pub mod Group20
pub mod GroupLaws
