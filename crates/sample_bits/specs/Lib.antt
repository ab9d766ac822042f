pub mod SampleBits
pub mod BitLaws
