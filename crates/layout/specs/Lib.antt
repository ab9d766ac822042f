pub mod Layout
pub mod LayoutLaws
pub mod Stores
