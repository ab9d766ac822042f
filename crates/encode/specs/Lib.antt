pub mod Write
pub mod WriteLaws
pub mod Back
pub mod Cut
