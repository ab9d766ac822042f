pub mod Row20
pub mod RowLaws
