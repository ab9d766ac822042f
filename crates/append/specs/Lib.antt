pub mod Grown
pub mod GrownLaws
