pub mod Manner
