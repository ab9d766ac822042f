pub mod Terminators
pub mod TerminatorLaws
