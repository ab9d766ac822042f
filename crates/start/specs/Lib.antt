pub mod Start
pub mod StartShown
pub mod StartWrites
