pub mod Quick
pub mod QuickLaws
