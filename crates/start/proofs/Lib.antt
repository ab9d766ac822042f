pub mod StartShown
pub mod StartWrites
