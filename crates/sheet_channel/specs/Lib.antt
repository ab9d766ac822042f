pub mod SheetChannel
pub mod Told
pub mod Meant
