pub mod Machine
pub mod Asked
