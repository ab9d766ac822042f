pub mod Afresh
pub mod Calls
pub mod FileLaws
pub mod Kept
pub mod Stands
pub mod Start
pub mod Step
pub mod Worked
