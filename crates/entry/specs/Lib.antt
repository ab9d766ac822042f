pub mod Entry
pub mod EntryLaws
