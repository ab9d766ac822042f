pub mod Sample
pub mod SampleLaws
