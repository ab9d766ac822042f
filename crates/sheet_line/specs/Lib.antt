pub mod SheetLine
pub mod Judging
