pub mod Machine
pub mod BitLaws
